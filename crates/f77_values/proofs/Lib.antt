pub mod Powers
pub mod Values
pub mod Products
pub mod Indexed
pub mod SameNames
pub mod Given
