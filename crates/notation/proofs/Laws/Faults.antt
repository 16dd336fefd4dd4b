pub mod First
pub mod Kinds
pub mod Numbers
