pub mod Order
pub mod Pairs
pub mod Flats
pub mod Duals
pub mod Maps
pub mod MapOrders
