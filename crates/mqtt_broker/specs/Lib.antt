pub mod reopening
pub mod stored
pub mod engine
