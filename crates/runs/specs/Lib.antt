-- Runs of collections, and the table of worked ones.
pub mod Runs
pub mod Matching
pub mod Table
