pub mod Layers
pub mod Shows
pub mod Carrying
pub mod Settling
pub mod Lines
pub mod Known
