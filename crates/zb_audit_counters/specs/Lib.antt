pub mod Readings
pub mod Counting
pub mod Standing
pub mod Recounting
