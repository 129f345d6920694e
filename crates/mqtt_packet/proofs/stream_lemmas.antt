pub mod Fronts
pub mod Waits
pub mod Cuts
pub mod Runs
pub mod Shorter
pub mod Wholes
pub mod Examples
