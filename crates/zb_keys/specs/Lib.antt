pub mod Tables
pub mod Reading
pub mod Declarations
pub mod Places
