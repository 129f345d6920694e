-- A broker with its ends.
pub mod Answered
pub mod Drained
pub mod Eventful
pub mod Given
pub mod Halted
pub mod Heard
pub mod Joined
pub mod Linked
pub mod Played
pub mod ReadAsSent
pub mod Reopened
pub mod StayKnowing
pub mod TakenOff
pub mod Unasked
