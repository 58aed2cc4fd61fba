pub mod Numbers
pub mod Openings
