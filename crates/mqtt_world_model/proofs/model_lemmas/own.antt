-- What the broker reads of a publisher's lines.
pub mod Calls
pub mod EitherLine
pub mod LightPublishes
pub mod OldCalls
pub mod OldLine
pub mod OwnCalls
pub mod OwnStep
pub mod Publishes
