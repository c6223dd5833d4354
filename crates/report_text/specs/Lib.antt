pub mod Spelled
pub mod ReportText
pub mod ReportOf
pub mod Stops
pub mod Parts
pub mod Outlines
pub mod Laws
