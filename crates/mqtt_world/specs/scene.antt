-- A broker with its ends, as a program.
pub mod Draining
pub mod Events
pub mod Halting
pub mod Hearing
pub mod Openings
pub mod Playing
pub mod Scenes
pub mod Stopping
