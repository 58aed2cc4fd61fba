pub mod TellingLemmas
pub mod SessionLemmas
pub mod LineLemmas
pub mod MomentLemmas
pub mod FollowLemmas
pub mod ServingLemmas
