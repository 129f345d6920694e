pub mod Reading
pub mod Drains
pub mod Delivery
