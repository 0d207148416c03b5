pub mod Answers
pub mod Listed
pub mod Only
pub mod Parts
