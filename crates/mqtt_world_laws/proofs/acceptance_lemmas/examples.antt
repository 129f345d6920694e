-- Worked runs.
pub mod AtOnceExamples
pub mod Examples
pub mod FullQueues
