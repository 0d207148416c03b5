pub mod Typing
pub mod Members
pub mod Joining
pub mod Finding
pub mod Agreeing
