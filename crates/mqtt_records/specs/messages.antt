pub mod Content
pub mod Filling
pub mod Held
pub mod Parts
pub mod PassedOn
pub mod Queue
pub mod Refusals
pub mod Slim
