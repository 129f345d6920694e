pub mod Blocks
pub mod Topics
pub mod Deeds
pub mod Copies
pub mod Acts
pub mod Grants
pub mod Steps
