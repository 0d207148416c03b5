pub mod Tables
pub mod Arithmetic
pub mod Constants
pub mod Sizes
