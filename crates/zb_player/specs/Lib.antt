pub mod Benches
pub mod FaultTexts
pub mod Playing
pub mod Runs
pub mod Swapping
