pub mod Padded
pub mod Laid
pub mod Filled
