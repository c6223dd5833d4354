pub mod SeedLogs
pub mod SeedsConsistent
