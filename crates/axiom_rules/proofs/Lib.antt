pub mod BoolLemmas
pub mod Orders
pub mod FrameRules
pub mod PartLemmas
mod TimingLemmas
mod Negations
pub mod ChangeLemmas
pub mod TreeLemmas
pub mod MeaningLemmas
pub mod AddingLemmas
mod EachLemmas
pub mod Lookups
mod RowLemmas
pub mod RowCases
pub mod PulseLemmas
pub mod ChangeCases
pub mod UnusedArguments
pub mod OnceLemmas
pub mod PartsMade
pub mod RulesMade
mod TableLemmas
pub mod AtomLemmas
pub mod IndexLemmas
pub mod ShapeLemmas
pub mod RulesHold
mod WorkedCases
mod PulseCases
