pub mod Words
pub mod Calls
pub mod Stories
pub mod Statements
pub mod Cases
