pub mod Drafts
pub mod Faults
pub mod Judge
pub mod Schedules
pub mod Printed
pub mod Reading
pub mod Supplies
pub mod Valid
