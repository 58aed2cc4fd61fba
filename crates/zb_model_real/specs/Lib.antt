pub mod Terms
pub mod Readers
pub mod Real
pub use Rattle.zb_seal.specs.declared.term.Term
