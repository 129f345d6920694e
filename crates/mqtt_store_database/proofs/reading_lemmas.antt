pub mod Selects
pub mod Streaming
pub mod Rising
pub mod Unique
pub mod Loaded
pub mod Refused
pub mod Vacant
pub mod Begun
