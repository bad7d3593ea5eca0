pub mod Passes
pub mod Filters
pub mod Weightings
pub mod Relations
pub mod Works
pub mod Calls
