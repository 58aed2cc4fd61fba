pub mod Commits
pub mod Lives
pub mod Stops
