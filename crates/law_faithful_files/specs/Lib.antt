pub mod Faithful
pub mod Disks
