pub mod Cutting
pub mod Lines
pub mod Readings
pub mod Firsts
pub mod Trees
pub mod Drafts
