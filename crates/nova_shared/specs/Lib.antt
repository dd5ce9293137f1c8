pub use Rattle.nova_kernel.specs.Views
pub use Rattle.nova_lock.specs.History
pub use Rattle.nova_lock.specs.Seats
pub mod Ran
pub mod Told
pub mod Seen
pub mod Runs
