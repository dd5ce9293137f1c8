pub mod Laid
pub mod Lying
pub mod Among
pub mod Started
pub mod Sources
