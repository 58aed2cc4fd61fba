pub mod ReadAgain
pub mod Whole
pub mod Endings
pub mod FaultLaws
