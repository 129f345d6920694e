-- What a run of a script is.
pub mod Scripted
pub mod Turns
pub mod Cleanly
pub mod Drains
