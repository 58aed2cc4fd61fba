pub mod Outside
pub mod Buffers
pub mod Stores
pub mod Scripts
pub mod Sessions
