pub mod Tops
pub mod Plays
pub mod Numbers
pub mod Arities
pub mod Ticks
pub mod Sizes
pub mod Own
pub mod Cells
