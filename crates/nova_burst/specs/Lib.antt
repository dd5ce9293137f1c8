pub mod Copies
pub mod Found
pub mod Gathered
pub mod Grounds
pub mod Lending
pub mod Taken
