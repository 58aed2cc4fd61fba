mod Lengths
mod Reserves
mod Sents
