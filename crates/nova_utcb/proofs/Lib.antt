pub mod Ruled
pub mod Copies
pub mod Groups
pub mod Exits
pub mod CopyLaws
pub mod ExitLaws
pub mod Pages
pub mod PageLaws
