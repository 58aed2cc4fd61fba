pub mod Kept
pub mod ReadLemmas
