-- What the contracts of the exported calls cite, beside those of the calls below.
pub mod Told
