pub mod Looking
pub mod Drops
pub mod Rooms
