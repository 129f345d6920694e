pub mod tree
pub mod routing
