pub mod Puts
pub mod Hearing
pub mod LineLists
pub mod Stepping
pub mod Silent
pub mod Turning
pub mod Judging
pub mod Running
