-- The definitions that the contracts of the crate cite.
pub mod Contents
pub mod Departs
pub mod Grammar
pub mod Judging
pub mod Legal
pub mod Refused
pub mod Shapes
pub mod Turns
pub mod Written
