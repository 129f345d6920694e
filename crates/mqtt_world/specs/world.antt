-- The world that runs.
pub mod Stages
pub mod Visits
pub mod Worlds
