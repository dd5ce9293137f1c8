pub mod Unbroken
mod Unchanged
pub mod Watching
mod Calling
mod Gifts
mod Doings
mod Working
pub mod Lapsing
pub mod Adding
