pub mod Keywords
pub mod Machine
