-- Rings, fields, sums, vectors, equations and matrices: what contracts cite.
pub mod Meaning
pub mod Inverse
pub mod Operations
pub mod Matrix
pub mod Outcome
pub mod Agreement
pub mod Outside
pub mod Multiples
pub mod Vectors
pub mod Combinations
pub mod Among
