pub mod Digests
pub mod Slimming
