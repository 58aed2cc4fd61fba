pub mod Grammar
pub mod Drafts
pub mod Pieces
pub mod Readings
pub mod Runs
pub mod Sets
pub mod Texts
