pub mod Parts
pub mod Naming
pub mod Said
pub mod AnswerLines
