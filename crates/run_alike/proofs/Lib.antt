pub mod Binds
pub mod Runs
