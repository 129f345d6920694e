pub mod values
pub mod rows
pub mod gathering
pub mod taking_over
