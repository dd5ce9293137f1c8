mod Lists
pub mod Said
mod Seen
mod Done
mod Alike
mod Words
mod Given
