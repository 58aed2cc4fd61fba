pub mod Texts
pub mod Parts
pub mod Naming
pub mod Words
pub mod Lines
pub mod Fixed
pub mod Says
pub mod AnswerLaws
