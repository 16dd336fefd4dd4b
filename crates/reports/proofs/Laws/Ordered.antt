pub mod Order
pub mod NameAt
pub mod Meets
pub mod Merge
pub mod Sorted
pub mod Merging
pub mod Halves
