pub mod Showing
pub mod SameTerms
