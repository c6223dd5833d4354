mod Equality
mod Lookups
mod GrowthLemmas
mod FormLemmas
mod CoreTruth
pub mod TreeLists
mod NodeLemmas
mod TableLemmas
mod Tables
mod Steps
mod Grown
mod Walked
pub mod NodeCounts
