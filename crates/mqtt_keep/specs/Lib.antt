pub mod contents
pub mod lawful
pub mod payloads
pub mod keeping
pub mod by_name
