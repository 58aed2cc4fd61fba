pub mod Seats
pub mod Acts
pub mod Told
pub mod Outside
pub mod Calls
pub mod Nodes
