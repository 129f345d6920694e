pub mod Emptied
pub mod Rest
pub mod Bare
pub mod Filled
