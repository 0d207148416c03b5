pub mod Queues
pub mod Weights
pub mod Reading
pub mod Solving
pub mod Gathered
