pub mod Formats
pub mod Verdicts
pub mod Calls
pub mod Rules
