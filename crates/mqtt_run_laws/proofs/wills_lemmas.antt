-- What each step does to the Wills that stand, and when a Will is published.
pub mod Quiet
pub mod Stored
pub mod EachCall
pub mod Ledger
pub mod Steps
pub mod Fates
pub mod Due
pub mod AtOnce
pub mod Examples
