pub mod Ties
pub mod Armings
pub mod Ended
pub mod Events
pub mod Boots
pub mod Resets
pub mod Dumps
