-- Nobody is sent what he did not ask for.
pub mod Asking
pub mod Unasked
pub mod Once
pub mod Runs
