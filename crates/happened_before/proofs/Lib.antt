pub mod Counts
pub mod HostRows
pub mod ClockLemmas
pub mod BeforeLemmas
pub mod ProgressLemmas
pub mod CycleLemmas
pub mod BuildLemmas
