pub mod Checks
pub mod Shown
pub mod Mains
pub mod Limits
pub mod Initialised
pub mod Scans
pub mod ProgramFaults
pub mod Sites
