pub mod Tables
pub mod Creation
pub mod Finding
