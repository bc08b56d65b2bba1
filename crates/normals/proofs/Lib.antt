pub mod OnChecks
pub mod OnRegister
