pub mod Cards
pub mod Heads
pub mod Lines
pub mod Progress
pub mod Reading
pub mod UnitNames
pub mod Words
