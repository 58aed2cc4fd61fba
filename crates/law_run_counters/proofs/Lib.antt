pub mod Shown
pub mod Sections
pub mod Calls
mod Same
pub mod Started
pub mod ActiveRows
pub mod Events
pub mod Unique
pub mod Floors
mod Instances
