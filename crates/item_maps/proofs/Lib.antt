pub mod Walking
pub mod Spreads
pub mod Values
pub mod Entries
pub mod Bringing
pub mod Raising
pub mod Firsts
pub mod Inclusion
