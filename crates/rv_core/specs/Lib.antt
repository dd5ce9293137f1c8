pub use Rattle.rv_model.specs.Words
pub use Rattle.rv_model.specs.Registers
pub use Rattle.rv_model.specs.Table
pub use Rattle.rv_model.specs.Codes
pub use Rattle.rv_model.specs.Step
pub mod Rows
pub mod Steps
pub mod Encodable
