-- What is read was sent; what was sent doesn't wait again; so what ends waiting is never read.
pub mod Marks
pub mod Rows
pub mod Walks
pub mod Once
pub mod Sent
pub mod Readings
pub mod Unsent
pub mod Examples
