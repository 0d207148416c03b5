pub mod Ends
pub mod Depends
pub mod Order
