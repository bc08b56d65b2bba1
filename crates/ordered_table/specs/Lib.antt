pub mod Rows
pub mod Order
pub mod Contents
