pub mod Conditions
pub mod Steps
pub mod Turns
pub mod Swaps
