mod Parts
pub mod Zips
mod Terms
mod Statements
