pub mod CheckSequence
pub mod Mac
pub mod Files
pub mod Extracts
pub mod Texts
pub mod Packets
