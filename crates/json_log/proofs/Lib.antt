pub mod Adding
pub mod Looking
pub mod Sizes
pub mod Few
