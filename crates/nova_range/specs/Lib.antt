pub mod Ranges
pub mod Rights
pub mod Mtds
pub mod RangeWords
pub mod Clamps
pub mod Statuses
pub mod Indices
pub mod Members
