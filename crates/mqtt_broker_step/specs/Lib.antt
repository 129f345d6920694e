pub mod Places
pub mod Lines
pub mod Tellings
pub mod Undoing
pub mod Stepping
pub mod Doing
pub mod Backs
pub mod Subscribing
