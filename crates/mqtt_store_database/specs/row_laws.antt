pub mod Messages
pub mod Items
pub mod Written
pub mod Steps
pub mod TableChanges
