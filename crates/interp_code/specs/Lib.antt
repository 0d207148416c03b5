pub mod Steps
pub mod Code
pub mod Endings
pub mod Entries
pub mod Laws
