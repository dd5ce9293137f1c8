pub mod Bounds
pub mod Sorted
pub mod Bases
pub mod Kept
