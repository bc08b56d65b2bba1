pub mod Numbers
pub mod Refusals
pub mod Elements
pub mod Calendar
pub mod Sheets
pub mod Months
