-- Lemmas on tables.
mod Laws
mod Steps
mod FreeColumns
mod Showing
mod Judging
mod Keeping
mod Reading
mod Holding
mod Asking
