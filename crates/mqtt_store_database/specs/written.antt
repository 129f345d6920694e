pub mod Columns
pub mod Making
pub mod Shortened
