pub mod Firsts
pub mod Deciding
pub mod Flagging
