pub mod Report
pub mod Reports
pub mod Texts
pub mod Rings
pub mod Known
pub mod Pieces
