pub mod Plans
pub mod Hosts
pub mod HostFaults
pub mod Calls
pub mod Lives
pub mod Texts
