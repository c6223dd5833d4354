pub mod Steps
pub mod Holding
pub mod Questions
pub mod Possible
pub mod Opening
