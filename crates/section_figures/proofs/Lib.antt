pub mod OnFits
pub mod OnThird
