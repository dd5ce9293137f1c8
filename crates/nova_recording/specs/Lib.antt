pub use Rattle.nova_finished.specs.Finished
pub mod Copies
pub mod Recordings
pub mod Accesses
pub mod Watches
pub mod Wants
