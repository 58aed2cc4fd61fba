pub mod Hash
pub mod Keyed
