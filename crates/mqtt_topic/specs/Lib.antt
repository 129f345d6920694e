pub mod names
pub mod sending
