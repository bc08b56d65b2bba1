pub mod Columns
pub mod Counts
