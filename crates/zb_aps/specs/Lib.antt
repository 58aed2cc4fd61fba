pub mod Spelling
pub mod Shape
pub mod Reading
pub mod Faults
pub mod Texts
