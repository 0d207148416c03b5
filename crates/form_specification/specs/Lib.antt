pub mod DataForms
pub mod Declarators
pub mod Specifications
