pub mod Lists
pub mod Told
pub mod Placed
pub mod Slots
pub mod Single
