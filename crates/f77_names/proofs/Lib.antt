pub mod Joined
pub mod Typing
