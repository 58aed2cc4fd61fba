pub mod Mapping
pub mod ShownLemmas
pub mod StateLemmas
pub mod RuleLemmas
pub mod ApplyLemmas
pub mod FindLemmas
pub mod HeardLemmas
pub mod ReadLemmas
pub mod PlaceLemmas
pub mod RecordLemmas
pub mod FittingLemmas
pub mod RestoreLemmas
pub mod BootLemmas
mod FirstLemmas
mod DeclarationLemmas
