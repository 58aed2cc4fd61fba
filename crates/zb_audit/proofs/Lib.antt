pub mod Failing
pub mod FreshNonces
pub mod TakenCounters
pub mod ConfirmedKeys
mod StoredKeys
pub mod EndLines
pub mod SaidByName
pub mod Auditing
pub mod ClaimsHold
