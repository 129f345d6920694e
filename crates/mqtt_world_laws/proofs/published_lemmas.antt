-- From a message's handshake to its acceptance, from there to the copy of each subscriber, and to what its receiver has of it.
pub mod Publishing
pub mod Direct
pub mod Names
pub mod Waiting
pub mod Parts
pub mod Received
pub mod Drained
pub mod Examples
