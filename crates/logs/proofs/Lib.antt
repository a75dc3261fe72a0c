-- Lemmas on logs, for the crates above too.
pub mod Checking
pub mod Histories
pub mod Counted
pub mod Settling
pub mod Forming
pub mod Reductions
pub mod Spanning
pub mod Replying
pub mod Carrying
pub mod Keeping
