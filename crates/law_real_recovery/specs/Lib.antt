pub mod Texts
pub mod Exchanging
pub mod Readmitting
pub mod Routing
pub mod Repeating
