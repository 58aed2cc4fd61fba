pub mod Lists
pub mod Settings
pub mod DeclaredLines
pub mod Records
pub mod Turns
pub mod StartLines
pub mod Seating
