pub mod Queue
pub mod Steps
pub mod Seating
pub mod Notes
