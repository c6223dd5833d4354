pub mod Cubes
pub mod Distances
mod NotAsked
pub mod SizeBounds
mod SizeLemmas
mod SizesFall
mod SizesUnique
pub mod TightExtremes
