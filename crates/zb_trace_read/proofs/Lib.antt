pub mod Capitals
pub mod Choosing
pub mod Printed
pub mod Spelled
pub mod Taking
