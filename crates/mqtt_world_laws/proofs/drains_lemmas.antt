-- Where the receiver is, round by round, and what is left.
pub mod Whereabouts
pub mod Sending
pub mod Reading
pub mod Greeted
pub mod Answering
pub mod Rounds
pub mod Emptied
pub mod Examples
