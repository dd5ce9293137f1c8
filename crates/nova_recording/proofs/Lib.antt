pub mod Copied
pub mod Expanding
pub mod Looked
pub mod Others
pub mod Told
pub mod Turns
pub mod Watched
