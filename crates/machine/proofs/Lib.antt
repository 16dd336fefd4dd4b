pub mod Laws
pub mod Names
pub mod Ranges
pub mod Written
