pub mod Gathering
pub mod Procedures
pub mod Entries
pub mod Bounds
pub mod Behind
pub mod Sending
pub mod Calls
