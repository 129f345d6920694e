pub mod examples
pub mod seats
pub mod others
pub mod connects
pub mod own
