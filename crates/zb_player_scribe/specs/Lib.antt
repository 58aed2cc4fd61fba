pub mod Frames
pub mod Kept
pub mod Pages
pub mod Turns
