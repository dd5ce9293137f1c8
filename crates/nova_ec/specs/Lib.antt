pub use Rattle.nova_model.specs.Edges
pub mod Entries
pub mod Tables
pub mod Waiting
pub mod Ways
pub mod Changes
pub mod Handlers
