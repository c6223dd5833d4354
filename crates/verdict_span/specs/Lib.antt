pub mod Spaced
pub mod Widest
pub mod Told
pub mod Spans
pub mod Climbs
pub mod Laws
