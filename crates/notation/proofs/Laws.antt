pub mod Meaning
pub mod Parts
pub mod Faults
pub mod Reading
pub mod Taking
pub mod Fill
pub mod Stored
pub mod Refused
