-- The lists of records after a change, and what rows can say of them.
pub mod Determined
pub mod Lists
pub mod Members
pub mod Ordered
pub mod Owns
pub mod Parts
pub mod Queues
pub mod Said
