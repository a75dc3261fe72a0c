-- Lemmas on recordings, replies and comparisons.
mod Logging
mod Answering
mod Comparing
