-- Lemmas on runs, and the runs of the table.
mod Matching
mod Tests
mod Steps
mod Replies
mod RunLines
