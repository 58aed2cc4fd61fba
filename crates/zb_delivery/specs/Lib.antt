pub mod Receiving
pub use Rattle.zb_rules.specs.Outcomes
