pub mod Said
pub mod Named
pub mod Given
