-- The language of scripts: the events of a world, and their text.
pub mod BadLines
pub mod Lines
pub mod Reading
pub mod Telling
pub mod Words
