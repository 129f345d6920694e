-- Turns, acts and runs, by the causes of the copies that end.
pub mod Examples
pub mod Caused
pub mod Queues
pub mod Turning
pub mod Pumping
pub mod Answering
pub mod Entering
pub mod Publishing
pub mod EachCall
pub mod CauseRuns
