mod Bytes
pub mod Toy
mod Small
mod Refusals
mod Cases
mod FitCases
mod Effects
