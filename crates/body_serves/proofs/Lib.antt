pub mod Served
pub mod Solved
pub mod Sample
pub mod Shown
