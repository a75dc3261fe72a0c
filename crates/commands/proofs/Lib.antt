-- Lemmas that several proofs share.
pub mod Naming
pub mod Offering
pub mod Going
pub mod Ordering
pub mod Recalling
