pub mod Keys
pub mod Wire
pub mod Opening
pub mod Texts
pub use Rattle.zb_mmo.specs.Keyed
pub mod Carrying
