-- A set is read back as it was printed, and what was read prints to what stood there.
pub mod Paths
pub mod Folders
