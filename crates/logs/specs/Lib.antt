-- Offers, questions, logs, and what every log promises.
pub mod Refusals
pub mod Texts
pub mod Offers
pub mod Reduced
pub mod Questions
pub mod Logs
pub mod Promises
