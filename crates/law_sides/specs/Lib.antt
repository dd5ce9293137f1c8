pub use Rattle.nova_ties.specs.Ties
pub mod Isolated
pub mod Shared
pub mod Tied
pub mod Told
pub mod Resting
pub mod Roles
