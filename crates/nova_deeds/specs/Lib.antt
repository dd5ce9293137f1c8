pub use Rattle.nova_model.specs.State
pub use Rattle.nova_model.specs.Deeds
pub use Rattle.nova_model.specs.Inputs
pub mod Acts
pub mod StirCounts
pub mod Stirs
pub mod Counted
pub mod Passing
