pub mod Packets
pub mod Fine
pub mod Copies
pub mod Turns
pub mod Acts
pub mod Steps
