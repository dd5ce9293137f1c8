pub use Rattle.rv_model.specs.Registers
pub use Rattle.nova_range.specs.Ranges
pub use Rattle.nova_range.specs.Rights
pub use Rattle.nova_range.specs.Mtds
pub use Rattle.nova_range.specs.RangeWords
pub mod Hypercalls
pub mod SoundCalls
pub mod Numbers
