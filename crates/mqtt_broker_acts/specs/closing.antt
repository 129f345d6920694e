pub mod Ending
pub mod Wills
pub mod Settling
pub mod Ticking
