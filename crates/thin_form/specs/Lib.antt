pub mod Forms
pub mod Lacks
pub mod Programs
