-- What the class sheet is, with no code in sight: widths, counted parts, pages, lines and what stands on them.
pub mod Aligned
pub mod Counted
pub mod Pages
pub mod Parted
pub mod Lines
pub mod Plain
pub mod Content
