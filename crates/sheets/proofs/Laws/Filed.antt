-- The sheet of a filed report.
pub mod Same
pub mod Selected
pub mod SetRows
pub mod Shown
pub mod Faithful
