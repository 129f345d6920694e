-- What can happen in a world, and what the replay of a script shows of it.
pub mod Playing
pub mod Replaying
pub mod Told
