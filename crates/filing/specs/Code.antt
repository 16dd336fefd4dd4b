-- Definitions that follow the code. Laws tie each to the plain one; no contract of a public call reaches them.
pub mod Filing
pub mod Taking
