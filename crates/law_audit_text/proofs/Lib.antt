pub mod Plain
pub mod Knowing
pub mod Counting
pub mod Locking
pub mod Judging
pub mod Spoken
mod Fixed
