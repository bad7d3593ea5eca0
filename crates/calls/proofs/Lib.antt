pub mod Sizes
pub mod HeldBuffer
