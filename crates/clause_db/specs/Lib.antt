pub mod Literals
pub mod Clauses
pub mod Flat
pub mod Renaming
pub mod Hinted
pub mod Laws
