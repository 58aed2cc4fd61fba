pub mod Keeping
mod Lists
mod Planned
mod Stored
