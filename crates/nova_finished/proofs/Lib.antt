pub mod Idle
pub mod Passing
pub mod Stepping
pub mod Going
pub mod Taken
