-- Exactly-once delivery as one statement, and where it begins.
pub mod Delivery
pub mod Lives
