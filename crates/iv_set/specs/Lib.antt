pub mod Toggles
pub mod ToggleLaws
pub mod Places
pub mod Sets
pub mod Walks
pub mod Least
