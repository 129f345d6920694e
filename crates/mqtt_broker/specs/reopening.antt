pub mod Times
pub mod Places
pub mod Phases
pub mod Identities
pub mod Bounds
pub mod Names
pub mod Texts
pub mod Written
