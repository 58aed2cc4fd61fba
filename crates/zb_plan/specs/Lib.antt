pub mod Answers
pub mod Deciding
pub mod Settling
pub mod Storing
