pub mod Halves
pub mod Means
pub mod Deviations
pub mod Rain
pub mod Sunshine
