pub mod Records
pub mod Rows
pub mod Serving
pub mod Oracles
pub mod Widest
pub mod Laws
