-- All ends of a world, and what becomes of them there.
pub mod Ends
pub mod Lines
pub mod Telling
