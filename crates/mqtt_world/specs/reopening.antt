-- Stores that a broker wrote.
pub mod Reached
