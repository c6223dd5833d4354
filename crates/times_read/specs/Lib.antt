pub mod TimesOf
pub mod Faults
pub use Rattle.mt_model.specs.Timing
pub use Rattle.decimal.specs.Numbers
