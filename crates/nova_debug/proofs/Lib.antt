pub mod Asked
pub mod Conversed
pub mod Made
pub mod Replied
