pub mod Zero
pub mod Counted
pub mod Same
pub mod Alike
