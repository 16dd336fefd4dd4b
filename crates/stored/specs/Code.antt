-- Definitions that follow the code. Laws tie each to the plain one; no contract of a public call reaches them.
pub mod Chains
pub mod Groups
pub mod Parents
pub mod Fails
pub mod Masks
pub mod Passes
pub mod OpenSteps
