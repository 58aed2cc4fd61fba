pub mod RefusedLemmas
pub mod StoreLemmas
pub mod RowLemmas
pub mod SkipLemmas
pub mod FreshLemmas
