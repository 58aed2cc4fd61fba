pub mod Played
pub mod Single
