pub mod Tables
pub mod Fields
pub mod Lawful
pub mod Figures
pub mod Texts
pub mod Laid
pub mod Backs
