pub mod Fetches
pub mod Came
pub mod Unread
