pub mod LeastLemmas
mod Ends
