-- The notation, in reading order: sets and how a set is printed; when a text is accepted; what a path means; what the calls promise.
pub mod Limits
pub mod Sets
pub mod Print
pub mod Form
pub mod Accepted
pub mod Judged
pub mod Fit
pub mod FitTable
pub mod Activity
pub mod ReadSet
pub mod WriteText
pub mod Layout
pub mod Reads
pub mod Code
