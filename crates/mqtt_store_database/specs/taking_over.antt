pub mod Puts
pub mod Migration
pub mod Kept
pub mod Items
pub mod Written
