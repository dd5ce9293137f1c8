pub mod Whom
pub mod Looking
pub mod Marks
pub mod Touching
