pub mod Outgoing
pub mod Floor
