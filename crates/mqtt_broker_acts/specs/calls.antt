pub mod Sound
pub mod Ready
pub mod Doing
pub mod First
pub mod Inputs
pub mod Answers
