-- The lemmas that several proofs share.
pub mod Faults
pub mod Loops
pub mod Answering
pub mod RoundTrip
pub mod Chunks
