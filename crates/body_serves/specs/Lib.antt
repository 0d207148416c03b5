pub mod Bodies
pub mod Spent
pub mod Example
pub mod Laws
