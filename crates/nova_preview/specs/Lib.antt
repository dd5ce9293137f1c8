pub use Rattle.nova_model.specs.Inputs
pub mod Ahead
pub mod Given
