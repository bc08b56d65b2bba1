pub mod Second
pub mod Third
