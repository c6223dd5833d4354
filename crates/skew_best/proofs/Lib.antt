pub mod SizeSteps
pub mod Passing
pub mod Reaching
mod Spelling
mod Joining
mod Faults
mod TolerancesBest
pub mod EventSteps
mod SpansBest
