pub mod Made
pub mod Changes
pub mod Within
pub mod Courses
pub mod Effects
pub mod Turns
pub mod Items
