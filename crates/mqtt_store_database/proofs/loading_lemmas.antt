pub mod One
pub mod Order
pub mod Left
pub mod Taken
pub mod Opened
