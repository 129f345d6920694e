pub mod own
pub mod others
pub mod connects
pub mod queue
pub mod drains
pub mod examples
