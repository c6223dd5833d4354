pub mod Order
pub mod Marked
pub mod Steps
pub mod Begun
pub mod Ends
