mod Rows
mod Along
pub mod Next
pub mod Room
pub mod Limits
pub mod SealLayers
pub mod Heard
pub mod InParts
