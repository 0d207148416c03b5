pub mod Meanings
pub mod Cells
pub mod Spans
pub mod Meant
