pub mod forms
pub mod schema
pub mod statements
pub mod messages
pub mod together
