pub mod OnHalves
pub mod OnMeans
pub mod OnDeviations
pub mod OnRain
pub mod OnSunshine
