pub use Rattle.nova_model.specs.State
pub use Rattle.nova_model.specs.Choice
pub mod Schedules
pub mod Choices
