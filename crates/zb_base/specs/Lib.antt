pub mod Outside
pub mod Config
pub mod Texts
pub mod Limits
pub mod Sizes
