pub mod Front
pub mod Stream
