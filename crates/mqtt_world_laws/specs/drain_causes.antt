-- The ends of copies in a drain.
pub mod DrainEnds
pub mod Fitting
