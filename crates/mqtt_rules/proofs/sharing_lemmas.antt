pub mod Examples
pub mod Said
pub mod Agreement
pub mod Acts
pub mod Steps
