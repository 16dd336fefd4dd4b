pub mod Ahead
pub mod Grown
pub mod FirstFault
pub mod Found
pub mod Steps
pub mod Readings
pub mod Paths
pub mod Folders
