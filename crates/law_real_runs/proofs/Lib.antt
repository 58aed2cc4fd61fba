mod Opening
mod Confirming
mod Keys
mod Commands
mod OwnKeys
pub mod RealRuns
