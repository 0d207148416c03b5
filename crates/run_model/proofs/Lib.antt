pub mod Extend
pub mod Order
