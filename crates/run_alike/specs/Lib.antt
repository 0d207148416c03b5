pub mod Like
pub mod Alike
pub mod Laws
