pub mod Firsts
pub mod Reaching
pub mod Turning
pub mod Ranking
pub mod Cycling
