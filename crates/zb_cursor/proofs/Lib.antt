pub mod ReadAgain
pub mod Times
pub mod Shorts
pub mod Outcomes
pub mod Pieces
