pub mod Memory
pub mod Machine
pub mod Lines
pub mod Runs
pub mod Kept
pub mod Start
