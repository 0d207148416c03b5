pub mod Answers
pub mod Ends
pub mod Places
pub mod Marks
pub mod Given
