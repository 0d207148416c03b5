pub mod Joined
pub mod Totals
