pub mod Literals
pub mod Words
