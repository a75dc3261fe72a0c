-- Lemmas that several proofs share, in other crates too.
pub mod Cutting
pub mod Valued
pub mod Spelling
pub mod Numerals
pub mod Counting
pub mod Spacing
