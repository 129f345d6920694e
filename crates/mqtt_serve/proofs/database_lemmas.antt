pub mod Constants
pub mod Leaving
