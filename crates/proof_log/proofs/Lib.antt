pub mod Spacing
pub mod Cuts
pub mod Items
pub mod Giving
pub mod ReadItems
pub mod WrittenItems
pub mod PlainWords
pub mod LineReading
pub mod ReadingLines
pub mod PassedItems
pub mod HeadLines
pub mod PassedLines
pub mod HandedWords
pub mod FirstWords
pub mod Texts
pub mod OrderedSets
pub mod AtomsApart
pub mod LiteralSets
pub mod LearnLines
pub mod FreshLines
mod WorkedCases
mod FreshCases
