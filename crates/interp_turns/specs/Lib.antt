pub mod Places
pub mod Flows
pub mod Turns
pub mod Operands
pub mod Records
