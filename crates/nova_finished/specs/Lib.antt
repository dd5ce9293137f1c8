pub use Rattle.nova_kernel.specs.Views
pub mod Fault
pub mod Finished
pub mod UnderWay
pub mod Steps
