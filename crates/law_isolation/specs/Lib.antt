pub mod Sound
pub mod Law
pub mod Shown
pub mod Masked
pub mod Stretches
