pub mod Identifiers
pub mod inbound
