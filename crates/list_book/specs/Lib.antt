pub mod Pairs
pub mod Book
pub mod OnPairs
