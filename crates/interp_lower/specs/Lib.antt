pub mod Pieces
pub mod Lines
pub mod Routines
pub mod Units
