pub mod Events
pub mod Resolving
