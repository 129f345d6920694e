-- The parts of the one law, and what a run leaves.
pub mod Lives
pub mod Drained
pub mod Delivered
pub mod Examples
pub mod LimitExamples
pub mod OrderExamples
pub mod RefusedExamples
pub mod RetainedExamples
pub mod WindowExamples
