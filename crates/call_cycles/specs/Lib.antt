pub mod Marks
pub mod Cycles
pub mod Searching
