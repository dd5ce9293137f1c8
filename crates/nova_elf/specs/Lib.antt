pub mod Fault
pub mod Fields
pub mod Headers
pub mod Executable
pub mod SegmentFits
