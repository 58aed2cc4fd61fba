pub mod Crc
pub mod Code
pub mod Division
