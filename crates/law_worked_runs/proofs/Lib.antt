mod Terms
pub mod Runs
