pub mod Lists
pub mod Hinted
pub mod Sound
pub mod Propagated
pub mod Carried
pub mod Cases
pub mod Pieces
