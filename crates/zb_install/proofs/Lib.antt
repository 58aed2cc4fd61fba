pub mod Ending
pub mod Codes
pub mod Digits
pub mod Division
pub mod Steps
