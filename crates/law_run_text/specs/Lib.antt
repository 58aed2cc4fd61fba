pub mod Proper
pub mod Back
pub mod OfNodes
pub mod Wide
pub mod Alone
