-- What the programs' contracts cite.
pub mod Shows
