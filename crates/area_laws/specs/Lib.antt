pub mod Areas
pub mod Touches
pub mod Laws
