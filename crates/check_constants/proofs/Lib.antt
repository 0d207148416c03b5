mod Layers
pub mod Passing
