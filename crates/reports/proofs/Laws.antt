pub mod Read
pub mod Ordered
