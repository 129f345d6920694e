pub mod examples
pub mod copies
pub mod publishers
