pub mod broker
pub mod others
pub mod own
pub mod taken
pub mod order
pub mod contents
pub mod drains
pub mod whole
