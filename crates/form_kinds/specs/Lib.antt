pub mod Foreign
pub mod Keywords
pub mod Scans
pub mod StatementKinds
