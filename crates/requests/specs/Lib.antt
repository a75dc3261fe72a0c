-- The format of requests, by lists of bytes.
pub mod Numbers
pub mod Format
pub mod Messages
pub mod Written
pub mod Giving
pub mod Asked
