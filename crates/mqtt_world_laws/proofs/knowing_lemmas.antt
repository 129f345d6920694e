pub mod Calls
pub mod Ends
pub mod Reading
pub mod Spelling
pub mod Worlds
