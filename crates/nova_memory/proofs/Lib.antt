pub mod Placed
pub mod Rooted
pub mod Laid
pub mod Views
pub mod Seen
pub mod Recents
pub mod Remembered
