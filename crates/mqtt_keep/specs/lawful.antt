pub mod Lawful
pub mod CopyKeys
