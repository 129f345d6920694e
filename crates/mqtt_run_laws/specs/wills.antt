pub mod Fates
pub mod Due
