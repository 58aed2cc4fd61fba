pub mod Values
pub mod Nodes
pub mod Answers
pub use Rattle.zb_core.specs.Events
