-- Definitions that follow the code. No contract of a public call reaches one of them.
pub mod Rows
