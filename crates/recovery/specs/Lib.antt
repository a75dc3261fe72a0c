-- Widths, the cells of a table, and the log that a table holds.
pub mod Widths
pub mod Cells
pub mod Columns
pub mod Slots
pub mod Tables
