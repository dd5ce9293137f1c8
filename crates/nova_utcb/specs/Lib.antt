pub use Rattle.rv_model.specs.Registers
pub use Rattle.nova_range.specs.Mtds
pub mod Messages
pub mod Groups
pub mod Files
pub mod Pages
