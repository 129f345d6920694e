-- Worked runs of the world.
pub mod Examples
pub mod ExamplesAliases
pub mod ExamplesBad
pub mod ExamplesMembers
pub mod ExamplesSessions
pub mod ExamplesStops
pub mod Scripts
pub mod Texts
