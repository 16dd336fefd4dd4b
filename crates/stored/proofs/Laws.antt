pub mod Bytes
pub mod Tables
pub mod Building
pub mod Shapes
pub mod Running
