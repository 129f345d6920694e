pub mod Parts
pub mod Making
pub mod Settled
pub mod Together
