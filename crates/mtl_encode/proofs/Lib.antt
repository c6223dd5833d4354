pub mod RangeLemmas
pub mod AtomGrowth
pub mod Products
pub mod ListedNumbers
pub mod RuleLengths
pub mod ClauseGrowth
pub mod ChangeCounts
pub mod LiteralCounts
pub mod ChangeRules
pub mod PulsePairs
pub mod KeptRules
pub mod ReachRules
pub mod SpanRules
pub mod ReachCounts
pub mod InstanceCounts
pub mod ModelLemmas
mod ClauseUses
mod PartUses
mod RuleUses
mod ExtremeUses
mod PulseUses
mod StateExact
mod NodeUses
mod ReachExact
mod ReachUses
pub mod NodeLemmas
mod NodesExact
mod RulesExact
mod ExactCases
mod EncodeLemmas
pub mod VariableLemmas
mod OrderLemmas
mod Rankings
pub mod HeldLemmas
