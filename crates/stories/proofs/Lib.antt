pub mod Effects
pub mod Fitness
pub mod Answered
pub mod Lawfulness
pub mod Running
pub mod Commuting
pub mod Absorbing
