mod Again
mod Codes
