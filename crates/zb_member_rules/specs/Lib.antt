pub mod Forms
pub mod Refused
