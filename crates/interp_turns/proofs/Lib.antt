pub mod Advances
pub mod Ends
pub mod Paths
pub mod Records
pub mod Counts
