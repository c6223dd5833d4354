pub mod Unread
pub mod NodeTimes
pub mod Offsets
pub mod BoundLists
pub mod Pairs
pub mod FormLemmas
pub mod SearchLemmas
pub mod Members
pub mod FrameLemmas
pub mod PositionLemmas
pub mod PulseLemmas
pub mod TruthLemmas
pub mod BrokenBounds
pub mod Conflicts
pub mod PreviousRows
pub mod Resyncs
pub mod HostSpans
pub mod PlacesInOrder
pub mod LastPassing
mod VersionOneCases
mod VersionTwoCases
mod Excluding
mod ReadingTurns
mod HappenedBefore
pub mod GreaterSkews
mod WorkedCases
mod ClockCases
mod PulseCases
