pub mod Drafts
pub mod Accepted
pub mod Gathering
