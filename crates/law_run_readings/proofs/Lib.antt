pub mod Rows
pub mod SaidRows
pub mod Keeping
pub mod Memory
mod Telling
mod ToldEdits
pub mod Steps
pub mod Edits
pub mod Lines
pub mod Events
pub mod Evens
pub mod Kept
pub mod Starting
mod NetRows
mod LinkRows
pub mod OwnLines
mod Joining
mod ToldGroups
pub mod Along
pub mod Agreed
