pub mod OnWritten
