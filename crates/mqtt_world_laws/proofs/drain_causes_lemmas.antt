-- Whose copies end in a drain, and by what.
pub mod Examples
pub mod OwnEnds
pub mod OwnWishes
pub mod FormsFit
pub mod OwnCalls
pub mod Sayings
pub mod DrainRuns
pub mod Fits
pub mod Fitting
