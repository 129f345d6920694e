pub mod playing
pub mod over_world
