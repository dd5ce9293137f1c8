pub mod Facts
pub mod Views
pub mod Telling
pub mod Along
pub mod Comparing
pub mod Dividing
