pub mod Occurrences
pub mod Declarations
pub mod Types
pub mod Intrinsics
pub mod Roles
pub mod Standings
