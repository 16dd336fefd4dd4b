-- The shared machine, in reading order: words and prefixes, the walk, the machine over calls, and what a list of calls says.
pub mod Limits
pub mod Words
pub mod Prefix
pub mod Walk
pub mod Calls
pub mod History
pub mod Moves
pub mod Elements
pub mod Folders
pub mod Whole
