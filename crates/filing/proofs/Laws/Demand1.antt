pub mod Sets
pub mod Calls
pub mod Shown
pub mod Whole
