-- Lemmas on rings, sums and rows, for the crates above too.
pub mod Guarded
pub mod OneMeaning
pub mod Sums
pub mod Rows
pub mod Positions
