pub mod CodeLemmas
pub mod LineAgain
