pub mod Said
pub mod Told
