pub mod Layout
pub mod Content
pub mod Writing
pub mod Copy
pub mod Removal
pub mod Columns
pub mod Numbers
pub mod Put
