pub mod Rows
pub mod Spots
pub mod UnitCells
pub mod Cells
