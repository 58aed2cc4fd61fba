pub mod Bits
pub mod CodeTexts
pub mod Folds
pub mod Ranges
pub mod Said
pub mod Seeds
pub mod Wholes
pub mod WordTexts
