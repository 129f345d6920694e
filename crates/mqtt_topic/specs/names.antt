pub mod Levels
pub mod Names
pub mod Filters
pub mod Matching
pub mod Aliases
