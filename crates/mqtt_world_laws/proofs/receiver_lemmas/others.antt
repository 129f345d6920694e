-- Calls of others, in the eyes of one receiver.
pub mod AwaitingOthers
pub mod Calling
pub mod CallsOfOthers
pub mod Carried
pub mod FreshLines
pub mod IdleLines
pub mod LateConnect
pub mod Others
pub mod Serving
pub mod Theirs
pub mod Walk
