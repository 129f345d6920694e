pub mod Naming
pub mod Granting
