pub mod Chain
pub mod Balance
pub mod Listed
pub mod OneDocument
pub mod Passed
pub mod Places
pub mod Select
