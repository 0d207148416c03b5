pub mod Own
pub mod Facts
pub mod Broken
