pub mod Digits
pub mod Printed
pub mod Written
