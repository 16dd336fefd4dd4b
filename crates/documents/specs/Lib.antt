-- Reports, in reading order: tokens by printing, the document, XPath 1.0 on it, where a tag's name stands, tags that repeat an
-- attribute's name, and the limit of a report.
pub mod Tokens
pub mod Tree
pub mod Document
pub mod XPath
pub mod NameList
pub mod TagAt
pub mod Repeats
pub mod Limits
pub mod Reading
pub mod Code
