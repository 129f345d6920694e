-- Strangers of a world by themselves, and what is read of their bytes.
pub mod Fronts
pub mod Strangers
