mod Rooms
mod CallLemmas
mod Stores
mod Scripts
mod Sessions
