pub mod Texts
pub mod Served
pub mod Commands
pub mod Following
pub mod Moments
pub mod Serving
