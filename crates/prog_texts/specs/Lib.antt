pub mod Mentions
pub mod Signatures
