pub mod Ranges
pub mod Asking
