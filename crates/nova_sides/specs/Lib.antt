pub use Rattle.nova_ties.specs.Ties
pub use Rattle.law_sides.specs.Tied
pub use Rattle.law_sides.specs.Resting
pub use Rattle.law_sides.specs.Roles
pub mod Among
pub mod Verdicts
pub mod Works
