pub use Rattle.zb_core.specs.Events
