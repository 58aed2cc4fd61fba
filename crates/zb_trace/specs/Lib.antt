pub mod Kinds
pub mod Text
pub mod Views
pub mod Writing
pub use Rattle.zb_model_real.specs.Terms
