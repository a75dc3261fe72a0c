-- Replies and their text.
pub mod Replies
pub mod ReplyText
