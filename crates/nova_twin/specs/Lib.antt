pub mod Sides
pub mod Comparison
pub mod Steps
