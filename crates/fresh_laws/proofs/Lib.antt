pub mod Sees
pub mod Terms
pub mod Turns
pub mod Runs
