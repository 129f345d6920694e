pub mod Reading
pub mod Writing
pub mod Faults
pub mod Bits
pub mod Blocks
pub mod Fields
