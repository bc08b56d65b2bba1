pub mod Grid
pub mod Calls
pub mod Cells
pub mod Runs
