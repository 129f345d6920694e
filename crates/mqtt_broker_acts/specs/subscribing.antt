pub mod Offering
pub mod Dropping
pub mod Bringing
pub mod Enrolling
pub mod Granting
pub mod Answering
