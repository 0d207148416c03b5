pub mod Places
pub mod Storage
pub mod Initials
pub mod Again
pub mod Searching
