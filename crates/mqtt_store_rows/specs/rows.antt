pub mod Rows
pub mod Joins
pub mod Ones
pub mod Gives
pub mod Tables
