pub mod Right
pub mod Claims
pub mod AuditPlace
pub mod OfOutlines
pub mod Laws
