pub mod Showing
pub mod Along
