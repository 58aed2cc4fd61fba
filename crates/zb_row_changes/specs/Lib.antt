pub mod Chains
pub mod Planned
pub use Rattle.zb_rows.specs.RowViews
pub use Rattle.zb_model_real.specs.Terms
pub use Rattle.zb_model_real.specs.Real
