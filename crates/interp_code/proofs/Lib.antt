pub mod Acts
pub mod Codes
pub mod Statements
pub mod Entries
