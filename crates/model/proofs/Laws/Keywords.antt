pub mod Words
pub mod Labels
pub mod Prefix
pub mod Walk
