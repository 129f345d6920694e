-- What a receiver was never handed.
pub mod Unsent
