pub mod Alike
pub mod AloneLemmas
pub mod CoverLemmas
pub mod GivenLemmas
pub mod QueuesLemmas
pub mod ReadingLemmas
pub mod TakenLemmas
