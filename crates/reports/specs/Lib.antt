-- Tokens found in bytes, in reading order: what the code answers for a token, and where a tag's name stands.
pub mod Seen
pub mod NamePart
pub mod Code
