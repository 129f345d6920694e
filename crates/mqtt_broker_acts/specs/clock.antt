pub mod Ticking
pub mod Quiet
