pub mod Completeness
pub mod Finishing
pub mod AuditedTexts
pub mod PlayedRuns
pub mod Fronts
pub mod ServedScripts
mod Settling
