pub mod Asking
pub mod Drawing
pub use Rattle.zb_record.specs.RowViews
