mod OperandLemmas
mod TableLemmas
mod NormalLemmas
mod CommandLemmas
