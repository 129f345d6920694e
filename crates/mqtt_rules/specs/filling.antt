-- Rows in memory that say their topic alone, and the store that has the rest.
pub mod Filling
pub mod Pumped
pub mod Entered
