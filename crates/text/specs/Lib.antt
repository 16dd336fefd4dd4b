-- Text, in reading order: names and numbers, and how they are read; refusals and what an answer says; a text written into a lent buffer.
pub mod Lists
pub mod Names
pub mod Classes
pub mod Decimal
pub mod Bytes
pub mod Read
pub mod Numbers
pub mod Refusals
pub mod Answers
pub mod Order
pub mod Written
pub mod Part
pub mod Output
