pub mod Found
pub mod Fields
pub mod Encoded
pub mod WordAgain
