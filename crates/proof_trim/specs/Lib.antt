pub mod Needed
pub mod Trimmed
pub mod Naming
pub mod Placed
pub mod Laws
pub use Rattle.proof_log.specs.Derivations
