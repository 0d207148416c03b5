pub mod Left
pub mod Steps
pub mod Blind
pub mod Inputs
pub mod Endings
pub mod Walks
