pub mod queues
pub mod publications
pub mod subscribers
