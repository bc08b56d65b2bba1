pub mod OnMoves
pub mod OnSought
pub mod OnOrder
pub mod OnTables
pub mod OnEntries
