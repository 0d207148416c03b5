pub mod Telling
pub mod Intervals
pub mod Parts
pub mod Labels
pub mod Nests
pub mod Astray
pub mod Faults
