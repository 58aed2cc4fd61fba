pub mod Bytes
pub mod Field
pub mod Block
pub mod Pairs
pub mod Columns
