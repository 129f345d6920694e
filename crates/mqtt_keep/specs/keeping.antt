pub mod Loading
pub mod InMemory
pub mod Faulty
