pub mod Joined
pub mod Edits
pub mod Phases
pub mod Joins
pub mod Sorted
pub mod Sets
pub mod Gathers
