pub mod Indexing
pub mod Following
