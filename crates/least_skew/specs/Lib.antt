pub mod Faults
pub mod Least
pub mod Told
pub mod Brackets
pub mod Turns
pub mod Laws
