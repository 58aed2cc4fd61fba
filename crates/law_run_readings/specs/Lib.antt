pub mod LastLines
pub mod RowLines
pub mod Agreeing
