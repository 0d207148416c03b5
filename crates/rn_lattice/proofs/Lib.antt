pub mod Keys
pub mod Joining
pub mod Below
