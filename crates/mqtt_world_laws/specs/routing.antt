-- Who gets a copy of a publication, and which copies of it enter queues.
pub mod Groups
pub mod Intended
pub mod Members
