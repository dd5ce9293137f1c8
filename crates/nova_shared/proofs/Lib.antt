pub mod Shares
pub mod Seats
pub mod Learning
