pub mod Follows
pub mod Passes
