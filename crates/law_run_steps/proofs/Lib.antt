pub mod Disks
pub mod Walks
pub mod Spared
pub mod Answered
pub mod Others
pub mod Starts
pub mod Members
pub mod Centre
pub mod Turns
pub mod Unswapped
mod Instances
