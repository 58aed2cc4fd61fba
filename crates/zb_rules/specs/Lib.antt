pub mod Chains
pub mod Hearing
pub mod Outcomes
pub mod Saying
pub use Rattle.zb_send.specs.Sendings
pub use Rattle.zb_send.specs.Sent
