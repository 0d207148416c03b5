pub mod Layout
pub mod Meaning
pub mod Sizes
pub mod Code
pub mod Agreement
pub mod Seen
