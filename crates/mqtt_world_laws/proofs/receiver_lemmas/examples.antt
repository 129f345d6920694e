-- Worked runs of a receiver.
pub mod DrainExamples
pub mod Examples
