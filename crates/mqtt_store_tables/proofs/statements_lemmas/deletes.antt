-- What each DELETE leaves, and the cascade of a session.
pub mod Cascade
pub mod Deletes
pub mod Removal
pub mod RemoveSession
pub mod RemoveSessionRuns
pub mod RemovesSession
