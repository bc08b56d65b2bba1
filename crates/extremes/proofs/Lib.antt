pub mod OnTops
pub mod OnMonths
