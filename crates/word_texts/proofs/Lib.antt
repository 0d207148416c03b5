pub mod Tokens
pub mod Expressions
pub mod Parts
pub mod Forms
pub mod Trees
