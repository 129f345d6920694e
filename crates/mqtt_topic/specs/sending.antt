pub mod Told
pub mod Sizes
pub mod Said
