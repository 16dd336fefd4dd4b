-- The sheet by what is stored: the tables of the code, its refusals, its size, and which rows it has.
pub mod Tables
pub mod Refused
pub mod Shaped
pub mod Numbered
