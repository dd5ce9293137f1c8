pub mod Keeping
pub mod Passes
pub mod Lone
pub mod Blocks
