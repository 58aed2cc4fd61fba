-- For each law that has premises: a worked network that meets them, and what the law says of it, computed.
pub mod Worked
pub mod Joins
mod Exchanges
mod Steps
mod Repeats
mod Losses
pub mod Low
mod Readmits
pub mod Stale
mod Answers
mod Rolls
mod Halts
pub mod Routes
