pub mod OnSpan
pub mod OnRanges
