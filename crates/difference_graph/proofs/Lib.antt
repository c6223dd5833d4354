pub mod GapLemmas
pub mod TreeLemmas
pub mod RepairLemmas
pub mod GraphLemmas
pub mod IncomingLemmas
pub mod QueueLemmas
pub mod WorkLemmas
pub mod LiftLemmas
