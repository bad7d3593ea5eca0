pub mod Evaluations
pub mod Steps
pub mod Kinds
pub mod Checks
pub mod Sizes
