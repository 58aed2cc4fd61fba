-- Whole runs, computed with the toy tools: each agrees line by line with the run that was worked out for it.
pub mod JoinUnderCentre
mod ResetAndBoot
mod StopBeforeCommit
mod StopTornShut
mod JoinThroughRouter
pub mod ConfirmationStopped
pub mod RemovalAndRollover
mod OldNetworkKey
mod RemovalAndRejoin
mod RejoinAndRepeat
pub mod ApplicationKeys
pub mod KeyComesInUnseen
