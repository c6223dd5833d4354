pub mod FlatLemmas
pub mod RenamingLemmas
pub mod LawLemmas
