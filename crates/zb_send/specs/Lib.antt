pub mod Sendings
pub mod Parts
pub mod Sent
