mod Booted
mod Reading
mod Values
