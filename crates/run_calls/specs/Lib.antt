pub mod Calls
pub mod Same
pub mod Behaviours
pub mod Laws
