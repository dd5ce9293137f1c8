pub use Rattle.nova_ec.specs.Tables
pub use Rattle.nova_model.specs.Calls
pub mod CallEffects
pub mod Serving
pub mod ExitEffects
pub mod Reaching
