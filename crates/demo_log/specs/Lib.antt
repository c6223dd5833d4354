pub mod DemoLog
pub mod DemoFormula
pub use Rattle.mt_model.specs.Form
pub use Rattle.mt_model.specs.Log
pub use Rattle.mt_model.specs.Timing
