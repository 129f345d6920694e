pub mod puts
pub mod tables
pub mod Making
pub mod Committed
pub mod Unique
pub mod Loaded
pub mod found
