pub mod OnColumns
