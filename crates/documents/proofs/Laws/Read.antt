pub mod ByteTests
pub mod Bytes
pub mod Quotes
pub mod PartsSound
pub mod ReadSound
