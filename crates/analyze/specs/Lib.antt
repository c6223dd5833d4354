pub mod Asserting
pub mod Marks
pub mod Resolving
pub mod Working
