-- The world that runs.
pub mod Bad
pub mod Bytes
pub mod Calling
pub mod Course
pub mod Drained
pub mod Looked
pub mod Pieces
pub mod Staged
pub mod Started
pub mod Stopped
pub mod Visited
