pub mod Blocks
pub mod Ccm
