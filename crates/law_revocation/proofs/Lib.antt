pub mod Taking
pub mod Turns
pub mod Kept
pub mod Shrinking
pub mod Answering
pub mod Ending
pub mod Calling
pub mod Refusing
