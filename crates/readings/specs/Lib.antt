pub mod Cuts
pub mod CutLaws
pub mod ChainMaps
pub mod LatticeFacts
pub mod PresenceTests
