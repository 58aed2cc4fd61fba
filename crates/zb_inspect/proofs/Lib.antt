pub mod Printed
pub mod Lists
pub mod PieceLists
pub mod CutLaws
pub mod RingLaws
pub mod FreshLeads
pub mod BlockLaws
pub mod JoinLaws
pub mod PieceLaws
pub mod RoundLaws
mod RunLaws
pub mod Growth
pub mod Bound
pub mod KnownKeys
