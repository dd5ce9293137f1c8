pub use Rattle.nova_judging.specs.Answers
pub use Rattle.nova_order.specs.Blocks
pub mod Watched
pub mod Worked
