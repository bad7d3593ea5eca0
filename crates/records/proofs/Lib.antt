pub mod Extents
pub mod Firsts
pub mod Faults
pub mod Returns
pub mod Bounds
pub mod Chunks
