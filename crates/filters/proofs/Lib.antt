pub mod Scatters
pub mod Loops
