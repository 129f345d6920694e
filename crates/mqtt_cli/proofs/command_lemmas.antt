-- Lemmas on command lines.
pub mod Capacities
pub mod Commands
pub mod Examples
pub mod Versions
pub mod Views
