pub mod RefusedLemmas
pub mod RunLemmas
pub mod CommandLemmas
pub mod MomentLemmas
mod FollowLemmas
pub mod ServeLemmas
