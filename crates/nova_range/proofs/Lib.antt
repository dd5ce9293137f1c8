pub mod Multiples
pub mod Meetings
pub mod Parts
pub mod Words
pub mod Members
pub mod Sorted
