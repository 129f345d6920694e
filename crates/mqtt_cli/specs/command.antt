-- What a command line asks for, and how the program ends.
pub mod Limits
pub mod Line
pub mod Outcome
pub mod Running
pub mod Values
