pub mod Counts
pub mod Appends
pub mod Offers
pub mod Pieces
pub mod Places
pub mod Puts
