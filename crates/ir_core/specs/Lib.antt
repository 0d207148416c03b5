pub mod Words
pub mod Uses
pub mod Listings
pub mod Runs
pub mod Parts
pub mod Lives
