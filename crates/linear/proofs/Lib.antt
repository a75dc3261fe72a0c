-- Lemmas of linear algebra, for the crates above too.
pub mod Identities
pub mod Sums
pub mod Solving
pub mod Uniqueness
pub mod Pivoting
pub mod FirstNonzero
pub mod Choices
pub mod FreeColumns
pub mod Enumeration
pub mod Among
pub mod Weights
pub mod Codes
pub mod Systems
pub mod Tables
pub mod Counting
