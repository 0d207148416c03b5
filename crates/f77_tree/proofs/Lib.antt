pub mod IsName
pub mod Sums
