pub mod WalkLemmas
pub mod LabelLemmas
pub mod SearchLemmas
pub mod LawLemmas
pub mod OutcomeLemmas
