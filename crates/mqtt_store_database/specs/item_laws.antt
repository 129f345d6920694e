pub mod Members
pub mod Items
pub mod Written
pub mod Counters
