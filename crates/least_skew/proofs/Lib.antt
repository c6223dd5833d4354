pub mod Widenings
pub mod ValidWidenings
pub mod Sames
pub mod Telling
pub mod Ends
pub mod Narrowing
