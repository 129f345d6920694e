-- Strangers, their bytes, and what is answered.
pub mod Strangers
pub mod Answered
pub mod Good
pub mod Stopped
pub mod Steps
pub mod Alike
pub mod Cutting
pub mod Waiting
pub mod TakenPackets
pub mod TakenLines
pub mod TakenPublishers
pub mod TakenReceivers
pub mod TakenEnds
