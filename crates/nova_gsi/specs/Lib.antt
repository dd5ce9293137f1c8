pub use Rattle.nova_model.specs.State
pub mod Firings
pub mod Laws
pub mod Counters
pub mod Deadlines
pub mod Passed
