pub mod RunLaws
pub mod ShareLaws
pub mod Sums
pub mod Shown
