pub mod OnTexts
pub mod OnRoom
pub mod OnLaid
pub mod OnLawful
