pub mod tables
pub mod deletes
pub mod puts
pub mod sets
pub mod steps
