mod ReportSteps
mod Judging
mod Outcomes
mod StatusValues
mod Replayed
mod Witnesses
mod LeftUnknown
mod ChecksExact
mod AcceptedAgain
mod DemoJudged
mod DemosExact
mod TrimmedAgain
mod TrimmedTexts
mod TrimSteps
mod JsonSteps
pub mod Turns
