pub mod Locations
pub mod Hangs
pub mod Stores
pub mod Questions
pub mod Outcomes
pub mod Answers
pub mod Searched
pub mod Least
