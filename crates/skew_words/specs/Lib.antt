pub mod Table
pub mod Words
pub mod Called
pub mod NormalWords
pub mod Matched
pub use Rattle.decimal.specs.Numbers
