pub mod Hand
pub mod Following
pub mod Reading
