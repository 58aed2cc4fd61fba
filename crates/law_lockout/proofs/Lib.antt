mod Terms
pub mod Words
