-- The lemmas of the crate; other crates see those on legal words.
mod Accepting
mod Answering
mod Departing
mod Exactly
pub mod Legality
mod Meaning
mod Numbering
mod Parting
mod Placing
mod Refusing
mod RoundTrip
mod Running
mod Shaping
mod Spelling
