pub mod Filling
pub mod InMemory
pub mod PassedLemmas
pub mod SentSizes
pub mod Slim
