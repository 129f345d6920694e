-- What the broker reads in a run, what is under way to it, and what goes on from event to event.
pub mod Reading
pub mod UnderWay
pub mod Going
