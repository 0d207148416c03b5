pub mod Lists
pub mod Exact
pub mod Telling
pub mod Keeping
pub mod Zipping
pub mod Giving
