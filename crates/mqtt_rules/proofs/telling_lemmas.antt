pub mod Blocks
pub mod Forms
pub mod Lines
pub mod Deeds
pub mod Plainly
