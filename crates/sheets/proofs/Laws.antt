pub mod Page
pub mod Stored
pub mod Filed
pub mod Whole
