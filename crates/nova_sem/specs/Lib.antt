pub use Rattle.nova_model.specs.State
pub mod Semaphores
pub mod Sound
pub mod Waiting
pub mod Links
