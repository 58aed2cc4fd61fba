pub mod Euis
pub mod Opening
pub mod Refusing
pub mod Along
pub mod Nodes
pub mod Readings
