mod Questions
mod OwnRules
mod CommandRules
mod Plans
pub mod Answers
pub mod Answered
mod Apart
pub mod LiveKeys
pub mod States
pub mod Loops
mod Memory
mod Starts
pub mod Ready
