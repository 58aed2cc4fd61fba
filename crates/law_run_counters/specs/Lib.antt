pub mod Counted
pub mod Floors
