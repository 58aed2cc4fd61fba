pub mod Answering
mod Opening
pub mod Storing
mod Parts
pub mod PlanLaws
