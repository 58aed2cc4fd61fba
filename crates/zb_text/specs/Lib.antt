pub mod Choices
pub mod Fields
pub mod Hexadecimal
pub mod Numbers
pub mod Pages
pub mod Words
