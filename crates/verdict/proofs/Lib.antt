pub mod Places
pub mod Witnesses
pub mod Claiming
pub mod Spelling
pub mod Reporting
pub mod Searching
pub mod Audits
mod OutlineAudits
mod BoundWalks
mod Outlining
