pub use Rattle.nova_model.specs.State
pub mod Words
pub mod Lines
pub mod Report
pub mod Summary
