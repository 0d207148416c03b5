pub mod Acts
pub mod Terms
pub mod Turns
pub mod Constants
pub mod Trees
pub mod Runs
