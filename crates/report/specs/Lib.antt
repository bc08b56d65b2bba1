pub mod Lawful
pub mod Written
