pub mod AttributesBack
pub mod PartsBack
pub mod ReadBack
pub mod OneRun
pub mod AllListed
pub mod TagAt
