-- Why the run in forms delivers what the run of what packets mean does.
pub mod Pairs
pub mod Found
pub mod Readings
pub mod Courses
pub mod Drains
pub mod Delivered
pub mod Scripts
pub mod Begins
pub mod Examples
