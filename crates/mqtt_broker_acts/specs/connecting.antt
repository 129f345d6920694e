pub mod Connecting
pub mod Joining
pub mod Preparing
