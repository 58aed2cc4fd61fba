pub mod Places
pub mod Fronts
pub mod Lengths
pub mod Airs
pub mod NwkLaws
pub mod ApsLaws
pub mod Founds
