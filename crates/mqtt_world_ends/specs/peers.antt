-- Ends and their lines in code, as the definitions have them.
pub mod Lines
pub mod Publishers
pub mod Receivers
