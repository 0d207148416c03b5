pub mod Placing
pub mod Marking
pub mod Giving
pub mod Made
pub mod Telling
pub mod Causes
