pub mod Orders
pub mod Nesting
pub mod Suprema
pub mod Adjunctions
pub mod Morphic
pub mod Neighbourhood
pub mod Absorption
