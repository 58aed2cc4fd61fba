mod JoinLaws
pub mod LineLaws
mod Places
mod ReadLaws
mod RunLaws
