pub mod LockedOut
