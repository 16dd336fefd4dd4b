-- The class sheet, in reading order: what it is, what is promised of it, and the contracts.
pub mod Sheet
pub mod SheetOf
pub mod ClassSheet
pub mod Lines
pub mod SheetIn
pub mod Printer
pub mod Limits
pub mod Code
