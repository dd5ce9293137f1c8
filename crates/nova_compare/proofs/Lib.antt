pub mod Places
pub mod Next
pub mod Readings
pub mod Peers
pub mod Telling
