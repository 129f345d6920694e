pub mod causes
pub mod turns
pub mod gathered
pub mod database
pub mod serving
pub mod journal
