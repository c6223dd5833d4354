pub mod Spending
pub mod SameStates
pub mod SmallSizes
