pub mod Stops
pub mod Frames
pub mod Worlds
pub mod Stacks
pub mod Moves
pub mod Numbers
pub mod Calls
