pub mod Identifiers
pub mod Inbound
pub mod InboundWorld
pub mod Inflow
pub mod Line
pub mod Publisher
