pub mod BoundCounts
pub mod Columns
pub mod EdgeLists
pub mod KnownSpans
pub mod Near
pub mod Beginnings
pub mod Reached
pub mod RowTables
pub mod Ranges
pub mod Settled
pub mod Tightest
pub mod Falls
mod FirstBroken
mod RowReadings
