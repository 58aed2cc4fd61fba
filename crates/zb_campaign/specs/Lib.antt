pub mod Campaigns
pub mod Answers
pub mod Outcomes
pub mod Faults
pub mod Totals
pub use Rattle.zb_player.specs.Runs
