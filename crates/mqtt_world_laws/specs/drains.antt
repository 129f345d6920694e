-- Drains that are not bad, from wherever a run of the world comes to.
pub mod Emptied
