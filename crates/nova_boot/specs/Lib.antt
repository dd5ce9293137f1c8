pub mod Boot
pub mod Laid
pub mod Lying
