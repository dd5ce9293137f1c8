pub use Rattle.nova_model.specs.Choice
pub use Rattle.nova_model.specs.Turn
pub mod Queues
pub mod Lists
pub mod Best
pub mod Precedence
pub mod Ready
