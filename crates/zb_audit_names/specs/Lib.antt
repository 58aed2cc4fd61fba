pub mod Naming
pub mod Groups
pub mod Secrets
pub mod Standing
