pub mod Printed
pub mod Read
pub mod Trees
pub mod Repeats
