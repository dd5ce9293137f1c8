pub mod History
pub mod Ticketed
pub mod Seats
