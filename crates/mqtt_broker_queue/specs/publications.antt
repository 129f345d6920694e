pub mod Copies
pub mod Whom
pub mod Delivering
pub mod Retaining
pub mod Choosing
pub mod Sharing
pub mod Seats
pub mod Publishing
