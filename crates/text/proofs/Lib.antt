pub mod OnDigits
pub mod OnNumbers
pub mod OnExamples
pub mod OnDrafts
pub mod OnWriting
