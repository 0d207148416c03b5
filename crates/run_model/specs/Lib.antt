pub mod Storage
pub mod Acts
pub mod Turns
pub mod Runs
pub mod Laws
