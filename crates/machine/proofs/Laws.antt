pub mod Slices
pub mod Lent
