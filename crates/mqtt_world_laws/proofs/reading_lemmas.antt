-- What the broker reads, from every end and stranger.
pub mod Backs
pub mod Asked
pub mod Goings
pub mod Runs
