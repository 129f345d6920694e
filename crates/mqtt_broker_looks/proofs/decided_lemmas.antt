pub mod Looks
pub mod Names
