pub mod Numbers
pub mod TellingLemmas
pub mod Examples
