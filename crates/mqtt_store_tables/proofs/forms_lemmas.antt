pub mod Creates
pub mod Kept
pub mod Fills
pub mod One
pub mod Said
pub mod Staying
pub mod Plain
