pub mod Rows
pub mod Made
pub mod Refilled
pub mod Lawful
