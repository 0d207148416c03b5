pub mod Stands
pub mod Composed
pub mod Rowed
pub mod Narrowed
