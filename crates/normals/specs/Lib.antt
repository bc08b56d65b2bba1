pub mod Normals
pub mod Keys
pub mod Order
pub mod Register
pub mod OnKeys
