pub mod Answered
pub mod FreshLines
pub mod KnownClauses
pub mod Halting
pub mod ReversedAtoms
