pub mod Nodes
pub mod Meets
pub mod Holding
pub mod TextLemmas
mod Cases
pub mod Instances
