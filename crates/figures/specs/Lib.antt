pub mod Shown
pub mod Days
pub mod Means
pub mod Totals
pub mod Examples
