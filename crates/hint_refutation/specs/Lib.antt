pub mod Hints
pub mod Propagation
pub mod Laws
pub mod Maps
pub mod Worked
pub mod Pieces
