-- The tables of schema 2 after each statement.
pub mod Places
pub mod Stays
pub mod Order
pub mod Said
pub mod Sweep
pub mod LetGo
pub mod Queued
pub mod Kept
pub mod Told
