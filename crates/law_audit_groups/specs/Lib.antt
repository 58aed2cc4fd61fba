pub mod Printing
pub mod Grouping
