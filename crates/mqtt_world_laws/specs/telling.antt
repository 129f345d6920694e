pub mod Reading
pub mod AsSent
pub mod Likewise
