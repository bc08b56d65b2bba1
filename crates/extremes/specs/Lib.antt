pub mod Tops
pub mod Kinds
pub mod Months
pub mod Rankings
