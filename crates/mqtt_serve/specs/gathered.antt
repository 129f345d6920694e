pub mod Counting
pub mod Gathering
pub mod Joining
pub mod Telling
