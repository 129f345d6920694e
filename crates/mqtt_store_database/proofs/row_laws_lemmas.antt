pub mod messages
pub mod tables
pub mod changes
pub mod Examples
pub mod New
