pub mod Defined
pub mod Expressions
pub mod Needed
pub mod Passes
pub mod Faults
