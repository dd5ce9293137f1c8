pub use Rattle.nova_judging.specs.Answers
pub mod Form
pub mod Words
pub mod Exit
pub mod Came
pub mod Flows
pub mod Runs
pub mod Main
