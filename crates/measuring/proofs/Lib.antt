-- The lemmas that several proofs share.
mod Drawing
mod Naming
mod Rising
