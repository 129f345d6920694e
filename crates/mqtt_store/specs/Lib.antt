pub mod Holding
pub mod Ones
pub mod Opening
pub mod Props
pub mod Telling
