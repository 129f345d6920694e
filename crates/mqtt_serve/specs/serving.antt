pub mod Announcing
pub mod Clock
pub mod Database
