pub mod Stored
pub mod Cores
