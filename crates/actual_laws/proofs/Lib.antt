pub mod Types
pub mod Sites
pub mod Shapes
pub mod Programs
