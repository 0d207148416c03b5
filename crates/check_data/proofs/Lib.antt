mod Layers
mod Pairs
mod Gathering
mod Givings
mod Cutting
