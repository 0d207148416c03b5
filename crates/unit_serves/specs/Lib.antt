pub mod Units
pub mod Programs
pub mod Laws
