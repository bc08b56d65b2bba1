pub mod OnShown
pub mod OnBounds
pub mod OnMeans
pub mod OnTotals
pub mod OnExamples
