-- The format of a pass, by lists of bytes.
pub mod Steps
pub mod Keywords
pub mod Fields
pub mod Order
pub mod Format
pub mod Giving
pub mod Readings
pub mod Lawful
pub mod Written
pub mod Messages
