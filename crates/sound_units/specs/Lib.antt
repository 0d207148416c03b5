pub mod Sites
pub mod Texts
pub mod Checked
pub mod Units
pub mod Accepted
pub mod Laws
