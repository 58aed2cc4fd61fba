pub mod SeatLemmas
pub mod ActLemmas
pub mod Adding
pub mod Telling
pub mod Going
pub mod FewCalls
pub mod Counting
pub mod NodeLaws
mod Controls
