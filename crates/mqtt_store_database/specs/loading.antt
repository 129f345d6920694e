pub mod Keeping
pub mod Loading
