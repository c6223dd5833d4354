pub mod Graphs
pub mod Repairs
pub mod Gaps
pub mod Incoming
pub mod Queues
pub mod Work
