pub mod Codes
pub mod Fits
pub mod Grammar
pub mod Kinds
pub mod Places
pub mod Said
pub mod Texts
pub mod Views
