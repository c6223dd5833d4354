pub mod Cutting
pub mod Stopping
pub mod Lined
pub mod LineTexts
pub mod Fronts
pub mod ItemLists
pub mod Sections
pub mod Reports
pub mod Stages
pub mod Unambiguous
pub mod ReadBack
pub mod CutShort
pub mod Spellings
pub mod Walks
pub mod RightLines
mod HandedParts
