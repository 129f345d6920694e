pub mod Rows
pub mod Gives
pub mod Ones
pub mod Tables
