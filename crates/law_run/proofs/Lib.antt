pub mod Basics
pub mod Nets
pub mod Counters
pub mod FreshLines
pub mod Groups
pub mod GroupSeals
pub mod EventStates
pub mod Runs
pub mod Finds
pub mod FloorRows
pub mod OnceLines
pub mod Sound
pub mod Judged
pub mod OnceGroups
pub mod OnceRuns
mod AnyLemmas
mod Exposed
mod Given
mod Outsiders
mod OutsiderRuns
pub mod LawfulRuns
mod CountedRuns
pub mod LockoutDeeds
pub mod ConfirmsLines
pub mod ConfirmsRuns
mod RecordLaws
pub mod RecordBack
pub mod GroupStates
pub mod LockoutRows
pub mod LockoutKept
mod LockoutSteps
pub mod LockoutMoves
mod LockoutDevices
pub mod LockoutGroups
mod LockoutRuns
pub mod LockoutLaw
pub mod CentreAlone
mod SpentRules
mod SpentRuns
mod Within
pub mod SpentLaw
pub mod StoredChanges
pub mod StoredFits
pub mod SpentSteps
mod Instances
