pub mod Joined
pub mod Passes
pub mod Noting
pub mod Seeing
pub mod Gathered
