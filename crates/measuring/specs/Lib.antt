pub mod Checksums
pub mod Draws
pub mod Meshes
pub mod Starts
pub mod Words
