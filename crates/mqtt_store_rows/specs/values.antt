pub mod Values
pub mod Blocks
pub mod Rows
pub mod Ones
pub mod Lists
pub mod Gives
pub mod Ends
