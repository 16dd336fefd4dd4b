-- Filing, in reading order: what every public call promises, filing by XPath 1.0 and what is printed, then the contracts and what filing a report means.
pub mod Demand1
pub mod Demand2Whole
pub mod FiledReport
pub mod Demand2
pub mod Printed
pub mod Filer
pub mod Shown
pub mod Filing
pub mod ReportRefusals
pub mod Listing
pub mod Listed
pub mod Limits
pub mod Code
