pub mod Format
pub mod Told
pub mod Raised
pub mod Reading
pub mod Steps
