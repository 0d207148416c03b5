pub mod Areas
pub mod Zips
