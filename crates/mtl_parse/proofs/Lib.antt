mod WorkedCases
pub mod Completeness
pub mod Soundness
pub mod Viability
pub mod Judging
mod Answered
pub mod Capping
pub mod Runs
pub mod Stacks
pub mod Digits
pub mod Scanning
pub mod SoundTokens
pub mod Hosts
pub mod Valid
pub mod Parsing
pub mod Intervals
pub mod PlacesAfter
pub mod PrintedTokens
mod PrintedPieces
mod PrintedFormulas
mod TokenLexemes
pub mod BlanksAndTokens
pub mod NoMemory
