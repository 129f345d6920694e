pub mod Thin
pub mod Gathered
pub mod Slim
pub mod Alone
pub mod Queues
