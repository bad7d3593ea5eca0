-- The lemmas that several proofs share.
mod Rows
mod Spelling
