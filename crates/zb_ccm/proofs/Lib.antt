pub mod Arrays
pub mod Chains
pub mod Streams
pub mod Openings
pub mod Sealings
pub mod Words
