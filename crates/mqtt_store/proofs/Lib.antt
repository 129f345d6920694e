pub mod Held
pub mod Loads
pub mod Applies
pub mod Opened
pub mod Asked
