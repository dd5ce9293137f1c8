pub use Rattle.nova_model.specs.Runs
pub mod Merged
pub mod Searches
pub mod Reductions
pub mod Notes
pub mod Edges
pub mod Going
