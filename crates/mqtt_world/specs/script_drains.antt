-- Drains of a script.
pub mod Done
