-- Recorded calls, questions to published forms, and their comparison.
pub mod Recordings
pub mod Questions
pub mod Comparisons
