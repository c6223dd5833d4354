pub mod Statuses
pub mod Texts
pub mod Laws
pub use Rattle.mt_model.specs.Bounds
pub use Rattle.happened_before.specs.Order
pub use Rattle.times_read.specs.TimesOf
