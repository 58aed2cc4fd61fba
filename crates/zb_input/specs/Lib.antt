pub mod KeyWords
pub mod Inputs
