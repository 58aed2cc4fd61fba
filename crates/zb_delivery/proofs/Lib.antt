mod Layers
mod Plans
