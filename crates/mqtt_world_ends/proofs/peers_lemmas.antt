-- Ends as they are kept, and in the definitions.
pub mod Inputs
pub mod Publishers
pub mod Receivers
