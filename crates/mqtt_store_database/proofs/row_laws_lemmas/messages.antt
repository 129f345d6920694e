-- What is said before and after each change.
pub mod Shared
pub mod Copies
pub mod Retained
pub mod Others
pub mod Found
