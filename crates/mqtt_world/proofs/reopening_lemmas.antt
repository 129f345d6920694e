-- What a broker wrote may begin a world, and one that began with nothing stored sends well; a worked run.
pub mod Begun
pub mod Named
pub mod Sending
pub mod Examples
