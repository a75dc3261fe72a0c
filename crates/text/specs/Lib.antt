-- Lines, words and numbers, by lists of bytes.
pub mod Text
pub mod Lines
pub mod Cursors
pub mod Numbers
pub mod Canonical
pub mod Writing
pub mod Faults
pub mod Names
