pub mod Arguments
pub mod Turning
