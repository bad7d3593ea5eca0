pub mod Memories
pub mod Lines
