pub use Rattle.nova_model.specs.Memory
pub use Rattle.nova_model.specs.Boot
pub mod Store
