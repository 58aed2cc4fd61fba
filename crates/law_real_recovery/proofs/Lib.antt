pub mod Arriving
pub mod Networks
pub mod Whole
pub mod Ending
pub mod ArrivingCommands
pub mod Exchanged
pub mod Joined
pub mod LetIn
pub mod ArrivingRelays
pub mod Through
pub mod Fronts
pub mod Repeated
mod Instances
