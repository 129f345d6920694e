-- What a receiver does, and what the broker reads of its lines.
pub mod Answering
pub mod Doings
pub mod Joins
pub mod Listening
pub mod Losing
pub mod OldAnswers
pub mod Own
pub mod OwnCalls
pub mod OwnDoings
pub mod OwnOthers
pub mod OwnSubscribes
