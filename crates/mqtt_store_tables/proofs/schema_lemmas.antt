pub mod Indexes
pub mod Adding
pub mod Filling
