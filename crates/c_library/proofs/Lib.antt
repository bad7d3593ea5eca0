-- The lemmas that proofs share.
mod Numbering
