pub mod Areas
pub mod Layouts
