pub mod Arms
pub mod Driven
