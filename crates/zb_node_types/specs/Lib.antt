pub mod Changes
pub mod Reasons
pub mod Texts
