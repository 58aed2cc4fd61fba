mod Choosing
mod Opened
