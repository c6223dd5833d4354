pub mod Extras
pub mod Telling
pub mod Climbing
