pub mod viewer
pub mod command
