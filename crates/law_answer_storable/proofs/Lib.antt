mod Lists
pub mod Chains
mod Bare
mod Moves
mod Drops
mod LinkRows
mod NetRows
mod Outcomes
mod OwnMoves
mod CommandMoves
mod Accepted
mod Afterwards
pub mod Answers
pub mod Payloads
mod Cases
