pub mod Marks
pub mod Earliest
pub mod Places
pub mod Refusals
