pub mod Conditions
pub mod InputsOutputs
pub mod Transfers
