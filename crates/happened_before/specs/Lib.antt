pub mod Order
pub mod Causes
pub mod Progress
pub mod Cycles
pub mod Laws
pub use Rattle.mt_model.specs.Before
pub use Rattle.mt_model.specs.Log
pub use Rattle.mt_model.specs.Timing
