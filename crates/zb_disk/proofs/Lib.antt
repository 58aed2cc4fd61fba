pub mod Lists
pub mod Windows
pub mod Images
pub mod Calls
pub mod Tearing
pub mod Extents
pub mod Moments
pub mod Trails
