pub mod Passing
pub mod Admitted
pub mod Answering
