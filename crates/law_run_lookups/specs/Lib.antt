pub mod Granted
pub mod FrameLayers
pub mod Sealable
pub mod Carried
