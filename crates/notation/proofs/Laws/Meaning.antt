pub mod Innermost
pub mod LastStep
pub mod Fit
pub mod FitTable
