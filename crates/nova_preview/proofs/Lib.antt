pub mod Frames
pub mod Looked
pub mod Parts
pub mod Stored
pub mod Words
