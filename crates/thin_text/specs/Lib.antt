pub mod Thin
pub mod Progress
