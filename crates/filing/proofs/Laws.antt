pub mod Filing
pub mod Listing
pub mod Demand1
