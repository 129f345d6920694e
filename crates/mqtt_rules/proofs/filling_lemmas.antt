-- Rows that say less than the store, and what it takes to have the whole broker.
pub mod Filled
pub mod Equivalence
pub mod Steps
pub mod Fitting
pub mod Tellings
pub mod Pumps
pub mod FewSent
pub mod SlimAgain
pub mod Fetching
pub mod Entered
pub mod Examples
