pub mod Frames
pub mod Keyed
pub mod Places
pub mod Maps
pub mod Cells
pub mod Alone
pub mod Admitted
pub mod Conditions
