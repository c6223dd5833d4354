pub mod Asked
pub mod Extremes
pub mod Faults
pub mod Settled
pub mod Size
pub mod SizeLaws
pub mod SizesFall
