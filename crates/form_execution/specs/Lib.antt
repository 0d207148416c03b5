pub mod Assignment
pub mod Control
pub mod InputOutput
pub mod Transfer
