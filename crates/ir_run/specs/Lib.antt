pub mod Images
pub mod Does
pub mod Ends
