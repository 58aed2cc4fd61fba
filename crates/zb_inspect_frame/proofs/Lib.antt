pub mod Trying
pub mod MoreKeys
pub mod SettledFrames
pub mod Noted
pub mod UnopenedFrames
mod ReadOnce
