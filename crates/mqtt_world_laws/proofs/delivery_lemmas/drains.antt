-- Drains, from wherever a run comes to.
pub mod DrainBounds
pub mod DrainCauses
pub mod Drains
