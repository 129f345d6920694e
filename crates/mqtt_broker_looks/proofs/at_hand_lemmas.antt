pub mod Stored
pub mod Filled
pub mod Reading
