-- Every run, whole.
pub mod EveryRun
pub mod HandedOver
pub mod Ledgers
pub mod Newcomers
pub mod Scripts
pub mod WholeRuns
