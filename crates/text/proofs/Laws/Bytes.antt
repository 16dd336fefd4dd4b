pub mod Classes
pub mod SameName
pub mod Cut
