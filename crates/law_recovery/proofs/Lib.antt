pub mod Once
pub mod Changing
pub mod Fields
pub mod Rolling
pub mod Candidates
pub mod Asking
pub mod Taking
pub mod Repeating
pub mod Knocking
mod HavingKeys
mod Cases
pub mod Baring
pub mod Rows
pub mod Sending
pub mod Quiet
pub mod Judged
pub mod Keeping
pub mod Requesting
pub mod Offering
pub mod Proving
pub mod Confirming
pub mod Steady
pub mod Laws
pub mod Choosing
pub mod Again
pub mod Joining
mod ExchangeCases
pub mod Calm
pub mod Counting
pub mod CountingAnswers
pub mod Airs
pub mod Exchanged
mod Booted
mod Rolled
mod Joined
pub mod Confirmed
pub mod Dropping
pub mod Removing
pub mod Codes
pub mod Knocks
pub mod Known
pub mod Readmitted
pub mod Refusing
mod ReadmissionCases
pub mod LostSending
pub mod LostTaking
pub mod Staying
pub mod Turning
mod LostCounting
mod Stopping
pub mod Acting
pub mod Halting
mod OnAir
mod LostKnocking
pub mod Floors
pub mod Rounds
mod NetFloors
mod Kept
mod StaleFrames
pub mod StaleTurns
pub mod StaleAnswers
mod Twice
mod Drawing
mod Foreseen
pub mod Reporting
pub mod Passing
pub mod Through
mod RouterCases
pub mod Instances
