pub mod Walking
pub mod Runs
pub mod AtEnd
pub mod Leasts
