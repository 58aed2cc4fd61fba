mod Opening
pub mod Showing
pub mod Standing
pub mod Conditions
pub mod Machines
