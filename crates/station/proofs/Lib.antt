pub mod OnRefusals
pub mod OnNumbers
pub mod OnElements
pub mod OnCalendar
pub mod OnSheets
