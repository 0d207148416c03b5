pub mod Writes
pub mod Lines
pub mod Constants
pub mod Pieces
