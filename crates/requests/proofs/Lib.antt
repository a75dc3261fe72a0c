-- Lemmas that several proofs share.
pub mod Adding
pub mod Following
pub mod Shrinking
pub mod Recalling
pub mod Naming
