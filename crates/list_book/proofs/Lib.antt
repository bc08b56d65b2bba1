pub mod OnRows
pub mod OnCalls
