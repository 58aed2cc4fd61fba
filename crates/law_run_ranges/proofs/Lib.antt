mod Lists
mod States
mod Questions
mod Outcomes
mod OwnRules
mod CommandRules
mod Judged
mod Frames
mod Answers
mod Records
pub mod Runs
mod Instances
