pub mod Spelling
pub mod Reading
pub mod Whole
pub mod Writing
pub mod Texts
