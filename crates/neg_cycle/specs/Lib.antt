pub mod Systems
pub mod Laws
pub mod Search
